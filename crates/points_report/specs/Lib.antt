pub mod PointTexts
