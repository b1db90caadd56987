-- how what waits goes on
mod Gathered
