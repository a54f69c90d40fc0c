mod Rooms
mod Steps
