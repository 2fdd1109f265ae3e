mod FeedRooms
mod LetterLines
