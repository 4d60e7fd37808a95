pub mod ExampleRun
pub mod ExampleRunLaws
