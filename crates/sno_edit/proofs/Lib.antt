pub mod PositionLemmas
pub mod Utf8Lemmas
pub mod ScriptLemmas
pub mod FileLemmas
pub mod BatchLemmas
pub mod HunkLemmas
