pub mod FindLaws
