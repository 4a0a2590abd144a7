-- The first words of lines (venti.conf(6)).
use Rattle.std.specs.Prelude.{ℕ, ◌==◌, Bool, true, false, if◌then◌else◌, List, Option, Some, None, codes}
use Rattle.std.specs.Str.{bytes_eq}
use Rattle.vt_conf.specs.declared.TheConstants.{MAX_FILES}
use Rattle.vt_conf.specs.declared.keyword.Keyword.{Keyword}
use Rattle.vt_conf.specs.declared.keyword.Keyword.TheVariants.{Index, Arenas, Isect, Bloom, Mem, Icmem, Bcmem, Httpaddr, Webroot, Queuewrites, Addr}

-- the keyword that a word is, if it is one
abbrev pub keyword_of : List ℕ → Option Keyword
keyword_of word =
    if bytes_eq word (codes "index") then Some Index
    else if bytes_eq word (codes "arenas") then Some Arenas
    else if bytes_eq word (codes "isect") then Some Isect
    else if bytes_eq word (codes "bloom") then Some Bloom
    else if bytes_eq word (codes "mem") then Some Mem
    else if bytes_eq word (codes "icmem") then Some Icmem
    else if bytes_eq word (codes "bcmem") then Some Bcmem
    else if bytes_eq word (codes "httpaddr") then Some Httpaddr
    else if bytes_eq word (codes "webroot") then Some Webroot
    else if bytes_eq word (codes "queuewrites") then Some Queuewrites
    else if bytes_eq word (codes "addr") then Some Addr
    else None

-- whether a value stands behind a keyword
abbrev pub takes_value : Keyword → Bool
takes_value Queuewrites = false
takes_value keyword = true

-- Whether the value of the keyword is a size.
abbrev pub takes_size : Keyword → Bool
takes_size Mem = true
takes_size Icmem = true
takes_size Bcmem = true
takes_size keyword = false

-- Whether the value of the keyword is an address that is read; that of httpaddr is not.
abbrev pub takes_address : Keyword → Bool
takes_address Addr = true
takes_address keyword = false

-- Whether a keyword names one file of several.
abbrev pub is_file : Keyword → Bool
is_file Arenas = true
is_file Isect = true
is_file keyword = false

-- on how many lines a keyword may stand
abbrev pub most_lines : Keyword → ℕ
most_lines keyword = if is_file keyword then MAX_FILES else 1

-- a number of its own for each keyword, by which two are compared
abbrev pub keyword_number : Keyword → ℕ
keyword_number Index = 0
keyword_number Arenas = 1
keyword_number Isect = 2
keyword_number Bloom = 3
keyword_number Mem = 4
keyword_number Icmem = 5
keyword_number Bcmem = 6
keyword_number Httpaddr = 7
keyword_number Webroot = 8
keyword_number Queuewrites = 9
keyword_number Addr = 10

-- whether two keywords are the same
abbrev pub same_keyword : Keyword → Keyword → Bool
same_keyword a b = keyword_number a == keyword_number b
