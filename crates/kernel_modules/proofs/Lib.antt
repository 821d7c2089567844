pub mod CallLemmas
pub mod LeavingLemmas
mod FunctionLemmas
pub mod TakenLemmas
