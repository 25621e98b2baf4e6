pub mod Kept
pub mod Reporting
pub mod CappedWords
pub mod Groups
pub mod HeadingGroups
pub mod RoutineParts
pub mod RoutinesAmong
pub mod SystemParts
pub mod Earliest
pub mod Judging
pub mod Fields
pub mod ArraysMade
pub mod FieldsMade
pub mod TypesMade
pub mod Visible
pub mod Finished
pub mod Defining
pub mod WholeTexts
mod EarlyEnds
mod UntilBroken
