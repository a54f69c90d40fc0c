pub mod Diagnose
