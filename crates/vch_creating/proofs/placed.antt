pub mod CreatePlaces
