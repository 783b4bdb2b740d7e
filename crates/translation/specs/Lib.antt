pub mod Translated
