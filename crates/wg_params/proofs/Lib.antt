pub mod FieldCodes
