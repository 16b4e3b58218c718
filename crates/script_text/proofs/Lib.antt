pub mod LineJudged
