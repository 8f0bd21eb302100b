mod Remembering
mod Telling
