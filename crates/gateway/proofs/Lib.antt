-- the laws of what a run, a marker and a line leave
mod Laws
