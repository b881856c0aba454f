pub mod StageCount
