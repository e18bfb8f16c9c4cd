mod Listing
mod Words
