pub mod Lag
pub mod Heating
pub mod Motion
pub mod Tables
pub mod Recordings
pub mod PlantLaws
pub mod Known
pub mod ListedPlants
pub use Rattle.loop_runs.specs.Plants
pub use Rattle.loop_command_line.specs.Plants as ListedWords
