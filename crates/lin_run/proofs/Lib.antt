mod Told
mod EndLines
mod AnswerStatuses
mod FurtherAnswers
mod LineLengths
