pub mod RequestingLaws
