-- Laws of the answers.
pub mod AnswerLaws
pub mod AdmissionLaws
