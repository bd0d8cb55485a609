pub mod Cuts
