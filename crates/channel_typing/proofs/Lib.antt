pub mod Greatest
pub mod Caps
pub mod SlotLaws
pub mod OwnPorts
pub mod Firsts
pub mod ListedLaws
