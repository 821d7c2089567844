pub mod RuleLemmas
pub mod LoopLemmas
