mod DigitLists
mod IntegerTexts
mod ScoreTexts
mod UnsignedTexts
