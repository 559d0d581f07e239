pub mod YesLaws
pub mod Reductions
pub mod Promised
pub mod RestrictedWorth
