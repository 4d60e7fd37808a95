pub mod DeskCalls
pub mod PinSightLaws
pub mod DeskCallLaws
