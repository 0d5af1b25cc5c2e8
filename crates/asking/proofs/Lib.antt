pub mod Slotting
