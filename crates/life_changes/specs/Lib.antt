pub mod ChangeSteps
pub mod ChangeAnswers
