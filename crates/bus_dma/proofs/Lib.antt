mod AnswerLaws
mod CallLaws
mod CallerLaws
mod NextLaws
mod ReturnLaws
mod TurnLaws
