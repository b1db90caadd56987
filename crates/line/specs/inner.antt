-- the figures of the parts before the marker put together with those of the marker
pub mod Together
