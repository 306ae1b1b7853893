pub mod Spans  -- the span is at most the ticks that a run adds
pub mod Worked  -- worked programs, computed from the definitions
