mod Ranges
mod EventLaws
mod Work
mod Going
mod Parts
mod StartLaws
mod TrialLaws
