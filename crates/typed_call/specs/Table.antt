-- The replay script, its table of lines: the place of each word of a line, counted from 0 at the word of the call, and
-- how many words the line has. What a request of document 02 adds to a line stands behind these. Assumes nothing.
use Rattle.std.specs.Prelude.{ℕ}

-- ---- `start Tset Tqui minTSDR maxTSDR TTD TTR retry TS masters points high low`
abbrev pub TSET : ℕ
TSET = 1

abbrev pub TQUI : ℕ
TQUI = 2

abbrev pub MINTSDR : ℕ
MINTSDR = 3

abbrev pub MAXTSDR : ℕ
MAXTSDR = 4

abbrev pub TTD : ℕ
TTD = 5

abbrev pub TTR : ℕ
TTR = 6

abbrev pub RETRY : ℕ
RETRY = 7

abbrev pub TS : ℕ
TS = 8

abbrev pub MASTERS : ℕ
MASTERS = 9

abbrev pub POINTS : ℕ
POINTS = 10

abbrev pub HIGHROW : ℕ
HIGHROW = 11

abbrev pub LOWROW : ℕ
LOWROW = 12

abbrev pub STARTWORDS : ℕ
STARTWORDS = 13

-- how many long numbers follow one another from Tset to TS, and how many row lengths
abbrev pub LONGS : ℕ
LONGS = 8

abbrev pub ROWS : ℕ
ROWS = 2

-- ---- `submit QUEUE SERVICE DA DSAP SSAP DATA`
abbrev pub QUEUE : ℕ
QUEUE = 1

abbrev pub SERVICE : ℕ
SERVICE = 2

abbrev pub DA : ℕ
DA = 3

abbrev pub DSAP : ℕ
DSAP = 4

abbrev pub SSAP : ℕ
SSAP = 5

abbrev pub DATA : ℕ
DATA = 6

abbrev pub SUBMITWORDS : ℕ
SUBMITWORDS = 7

-- ---- `frame CLOCK ROOM HIGH LOW OCTETS`
abbrev pub CLOCK : ℕ
CLOCK = 1

abbrev pub ROOM : ℕ
ROOM = 2

abbrev pub HIGH : ℕ
HIGH = 3

abbrev pub LOW : ℕ
LOW = 4

abbrev pub OCTETS : ℕ
OCTETS = 5

abbrev pub FRAMEWORDS : ℕ
FRAMEWORDS = 6

-- `sent CLOCK`, `slot CLOCK`, and `collect QUEUE`
abbrev pub CLOCKEDWORDS : ℕ
CLOCKEDWORDS = 2

abbrev pub COLLECTWORDS : ℕ
COLLECTWORDS = 2

-- `reset` and `show`, which stand alone
abbrev pub ALONE : ℕ
ALONE = 1
