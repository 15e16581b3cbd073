mod Answers
mod Calling
mod Lent
mod Reached
