-- The exit status and the text of each exit.
use Rattle.std.specs.Prelude.{ℕ, List, ◌++◌, codes}
use Rattle.std.specs.Fmt.{decimal}
use Rattle.kv_tool.specs.declared.exit.Exit.{Exit}
use Rattle.kv_tool.specs.declared.exit.Exit.TheVariants as exits

-- the exit status of the program
abbrev pub status_of : Exit → ℕ
status_of exits.Done = 0
status_of exits.Usage = 1
status_of exits.ReadFault = 2
status_of exits.WriteFault = 3
status_of exits.NoMemory = 4
status_of exits.DiskFault = 5
status_of (exits.Damaged disk place found expected) = 6
status_of exits.TooLong = 7
status_of (exits.BadFrame place) = 9
status_of (exits.Cut count) = 10
status_of (exits.Spent found) = 11
status_of (exits.OtherChain disk) = 12
status_of (exits.Full needed free) = 13

-- a number behind a space
abbrev pub spaced : ℕ → List ℕ
spaced number = codes " " ++ decimal number

-- the name and, each behind one space, the numbers
abbrev pub text_of : Exit → List ℕ
text_of exits.Done = codes "Done"
text_of exits.Usage = codes "Usage"
text_of exits.ReadFault = codes "ReadFault"
text_of exits.WriteFault = codes "WriteFault"
text_of exits.NoMemory = codes "NoMemory"
text_of exits.DiskFault = codes "DiskFault"
text_of (exits.Damaged disk place found expected) =
    codes "Damaged" ++ spaced disk ++ spaced place ++ spaced found ++ spaced expected
text_of exits.TooLong = codes "TooLong"
text_of (exits.BadFrame place) = codes "BadFrame" ++ spaced place
text_of (exits.Cut count) = codes "Cut" ++ spaced count
text_of (exits.Spent found) = codes "Spent" ++ spaced found
text_of (exits.OtherChain disk) = codes "OtherChain" ++ spaced disk
text_of (exits.Full needed free) = codes "Full" ++ spaced needed ++ spaced free
