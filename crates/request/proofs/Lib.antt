pub mod Signs
pub mod StepWays
pub mod FindWays
pub mod AskWays
pub mod WriteWays
pub mod AnswerWays
pub mod PutWays
