mod Calls
mod Runs
mod EdgeRuns
mod TouchedRuns
mod RenderRuns
mod StripeBits
