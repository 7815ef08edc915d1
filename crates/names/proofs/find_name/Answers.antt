-- `names::find_name` meets its contract: the words of each list's text are its names. Assumes nothing.
use borrow.Author.Rules.{rules}
use Rattle.words.specs.Find.{words_of, room_of}
use Rattle.names.proofs.Words.{find_words}
use Rattle.names.proofs.find_name.Goals as goal

pub enum_told-1 : goal.enum_told-1
unfolding words_of room_of
enum_told-1 c = search (rules, find_words)

pub find_word-requires : goal.find_word-requires
unfolding words_of room_of
find_word-requires c = search (rules, find_words)

pub enum_told-in-Yards : goal.enum_told-in-Yards
unfolding words_of room_of
enum_told-in-Yards c = search (rules, find_words)

pub find_word-requires-in-Yards : goal.find_word-requires-in-Yards
unfolding words_of room_of
find_word-requires-in-Yards c = search (rules, find_words)

pub enum_told-in-Floors : goal.enum_told-in-Floors
unfolding words_of room_of
enum_told-in-Floors c = search (rules, find_words)

pub find_word-requires-in-Floors : goal.find_word-requires-in-Floors
unfolding words_of room_of
find_word-requires-in-Floors c = search (rules, find_words)

pub enum_told-in-HousingTypes : goal.enum_told-in-HousingTypes
unfolding words_of room_of
enum_told-in-HousingTypes c = search (rules, find_words)

pub find_word-requires-in-HousingTypes : goal.find_word-requires-in-HousingTypes
unfolding words_of room_of
find_word-requires-in-HousingTypes c = search (rules, find_words)

pub enum_told-in-AirScrubbers : goal.enum_told-in-AirScrubbers
unfolding words_of room_of
enum_told-in-AirScrubbers c = search (rules, find_words)

pub find_word-requires-in-AirScrubbers : goal.find_word-requires-in-AirScrubbers
unfolding words_of room_of
find_word-requires-in-AirScrubbers c = search (rules, find_words)

pub enum_told-in-HousingFloors : goal.enum_told-in-HousingFloors
unfolding words_of room_of
enum_told-in-HousingFloors c = search (rules, find_words)

pub find_word-requires-in-HousingFloors : goal.find_word-requires-in-HousingFloors
unfolding words_of room_of
find_word-requires-in-HousingFloors c = search (rules, find_words)

pub enum_told-in-HousingAirs : goal.enum_told-in-HousingAirs
unfolding words_of room_of
enum_told-in-HousingAirs c = search (rules, find_words)

pub find_word-requires-in-HousingAirs : goal.find_word-requires-in-HousingAirs
unfolding words_of room_of
find_word-requires-in-HousingAirs c = search (rules, find_words)

pub returns-in-Categories : goal.returns-in-Categories
unfolding words_of room_of
returns-in-Categories c = search (rules, find_words)

pub returns-in-Yards : goal.returns-in-Yards
unfolding words_of room_of
returns-in-Yards c = search (rules, find_words)

pub returns-in-Floors : goal.returns-in-Floors
unfolding words_of room_of
returns-in-Floors c = search (rules, find_words)

pub returns-in-HousingTypes : goal.returns-in-HousingTypes
unfolding words_of room_of
returns-in-HousingTypes c = search (rules, find_words)

pub returns-in-AirScrubbers : goal.returns-in-AirScrubbers
unfolding words_of room_of
returns-in-AirScrubbers c = search (rules, find_words)

pub returns-in-HousingFloors : goal.returns-in-HousingFloors
unfolding words_of room_of
returns-in-HousingFloors c = search (rules, find_words)

pub returns-in-HousingAirs : goal.returns-in-HousingAirs
unfolding words_of room_of
returns-in-HousingAirs c = search (rules, find_words)
