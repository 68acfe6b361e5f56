mod Numbers
mod Negatives
mod Integers
