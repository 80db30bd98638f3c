-- Soft values: the channel estimate is close to a multiple of the gain.
pub mod Estimates
-- Each soft value has the sign of the sent bit.
pub mod SoftValues
-- Slots whose symbols have slowly varying gains are received through these gains.
pub mod SlowGains
-- Words: if all soft values have the signs of one word's bits, only this word costs 0.
pub mod SpokenWords
-- The soft values of resource elements that carry bits have their signs; if the bits are a word's, the values determine
-- it.
pub mod Speaking
-- Positions of the channels' resource elements.
pub mod Placed
-- Soft values of a subframe, each from its own slot.
pub mod Subframes
-- The control region determines the indicator and the grant that were sent, and the attempt returns them.
pub mod Controls
-- The transport block that they announce is determined.
pub mod SharedBlocks
-- The broadcast channel of a slot determines the MIB that was sent.
pub mod Masters
-- The elements of a cell that carries a plan, where the plan uses them.
pub mod Carrying
-- The plan sends a QPSK symbol in each resource element that it uses.
pub mod Taken
-- Each symbol is received from all ports of the scheme, the synchronisation signals as from the first port alone.
pub mod SentSymbols
-- A hit is identified by its best pair alone.
pub mod BestPairs
-- A clean recording is faithful, since its errors have little energy.
pub mod LoadedErrors
pub mod Signals
-- The word that a cell broadcasts has the MIB's fields, and its CRC passes.
pub mod SentBlock
-- Positions of the cell's primary signals, and the epochs of its entries.
pub mod TruePlaces
-- Slots that are read have correct soft values, and the broadcast channel's slot carries the word.
pub mod SentSlots
-- A cell to which a recording is faithful is received through one gain.
pub mod FaithfulCells
-- A cell that is received through channels has slots with correct soft values.
pub mod HeardCells
-- A cell with a slowly varying gain is received through channels.
pub mod FadingCells
-- A cell that arrives over several paths is received through channels.
pub mod EchoCells
-- The transport block has the plan's fields, so the cell's first even-numbered frame is decoded to them.
pub mod SentFields
-- A frame whose values have the signs of a plan's bits is decoded to the plan's fields.
pub mod SpokenSystem
pub mod SentSystem
-- A receiver has some answer on the system information of each cell.
pub mod SomeSystem
-- The receiver decodes the words that are nearest to the soft values.
pub mod NearestWords
-- A list has a right entry of each cell that is read at each detection near one.
pub mod NearCells
-- A list holds each cell that its receiver hears.
pub mod Held
-- All together: a receiver of one port hears each cell that is received through channels, so its list holds it.
pub mod HeldCells
-- The entry's plan is the sent cell's plan.
pub mod Plans
