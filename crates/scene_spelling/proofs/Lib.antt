pub mod FieldLaws
pub mod FormLaws
