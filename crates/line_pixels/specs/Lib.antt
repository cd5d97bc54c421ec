pub mod ByClosure
pub mod Cells
pub mod Cursor
pub mod Colour
pub mod Inner
pub mod Spans
pub mod SamplePlace
pub mod Source
