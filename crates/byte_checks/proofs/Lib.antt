pub mod OneRecord
pub mod TableThere
pub mod SceneLaws
pub mod CallLaws
pub mod JudgedLaws
