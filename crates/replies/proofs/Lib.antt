mod Lists
mod Behind
mod Apart
