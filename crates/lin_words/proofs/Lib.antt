mod LineTexts
mod Numbers
mod ShortWords
mod TakenWords
