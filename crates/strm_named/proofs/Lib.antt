mod Held
mod Renamed
mod Shaped
mod Taken
