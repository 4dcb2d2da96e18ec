pub mod PieceSpans
pub mod Spans
