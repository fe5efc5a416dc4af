mod Passes
