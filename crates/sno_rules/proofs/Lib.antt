mod SignLaws
mod FieldLaws
mod SpellingLaws
mod RuleFileLaws
