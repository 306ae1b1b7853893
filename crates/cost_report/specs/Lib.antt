-- ---- what is promised

-- Span: the span of a run, over the run itself
pub mod Span
