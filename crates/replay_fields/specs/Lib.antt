pub mod AnswerFields
