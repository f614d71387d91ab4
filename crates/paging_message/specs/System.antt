-- The System Parameters Message (TIA/EIA-95-B, 7.7.2.3.2.1).
use Rattle.paging_message.specs.Common.{plain_contents, plain_shape, MessageShape, Contents}
use Rattle.std.specs.Prelude.{ℕ, Bool, List, [], ◌∷◌, codes, get_or, None}
use Rattle.paging_message.specs.Spelling.{IsSpelled}
use Rattle.paging_message.specs.declared.system.SystemFields.{SystemFields}

-- the widths of the fields in their order
abbrev pub system_widths : List ℕ
system_widths =
    9 ∷ 6 ∷ 15 ∷ 16 ∷ 12 ∷ 3 ∷ 3 ∷ 1 ∷ 1 ∷ 16 ∷ 4 ∷ 3 ∷ 3 ∷ 1 ∷ 1 ∷ 1 ∷ 1 ∷ 1 ∷ 1 ∷ 7 ∷ 22 ∷ 23
    ∷ 11 ∷ 4 ∷ 4 ∷ 4 ∷ 4 ∷ 5 ∷ 4 ∷ 1 ∷ 1 ∷ 5 ∷ 1 ∷ 6 ∷ 6 ∷ 4 ∷ 4 ∷ []

-- their names
abbrev pub system_names : List (List ℕ)
system_names =
    codes "pn" ∷ codes "seq" ∷ codes "sid" ∷ codes "nid" ∷ codes "zone" ∷ codes "zones"
    ∷ codes "ztimer" ∷ codes "msids" ∷ codes "mnids" ∷ codes "base" ∷ codes "bclass"
    ∷ codes "pages" ∷ codes "cycle" ∷ codes "home" ∷ codes "fsid" ∷ codes "fnid" ∷ codes "up"
    ∷ codes "down" ∷ codes "param" ∷ codes "prd" ∷ codes "lat" ∷ codes "long" ∷ codes "dist"
    ∷ codes "wina" ∷ codes "winn" ∷ codes "winr" ∷ codes "age" ∷ codes "pthresh"
    ∷ codes "pframes" ∷ codes "pthen" ∷ codes "pperen" ∷ codes "pdelay" ∷ codes "rescan"
    ∷ codes "tadd" ∷ codes "tdrop" ∷ codes "tcomp" ∷ codes "ttdrop" ∷ []

-- the layout: the fields, then all remaining bits
abbrev pub system_shape : MessageShape
system_shape = plain_shape system_widths [] 0 None

-- the values of the fields, in the order of the table
abbrev pub system_values : SystemFields → List ℕ
system_values m =
    m.pn ∷ m.seq ∷ m.sid ∷ m.nid ∷ m.zone ∷ m.zones ∷ m.ztimer ∷ m.msids ∷ m.mnids ∷ m.base
    ∷ m.bclass ∷ m.pages ∷ m.cycle ∷ m.home ∷ m.fsid ∷ m.fnid ∷ m.up ∷ m.down ∷ m.param ∷ m.prd
    ∷ m.lat ∷ m.long ∷ m.dist ∷ m.wina ∷ m.winn ∷ m.winr ∷ m.age ∷ m.pthresh ∷ m.pframes
    ∷ m.pthen ∷ m.pperen ∷ m.pdelay ∷ m.rescan ∷ m.tadd ∷ m.tdrop ∷ m.tcomp ∷ m.ttdrop ∷ []

-- the content of the message
abbrev pub system_contents : SystemFields → Contents
system_contents m = plain_contents (system_values m) ([] ∷ [] ∷ [] ∷ []) m.rest

abbrev pub IsSystem : SystemFields → Type 0
IsSystem m = IsSpelled 1 system_shape (system_contents m)

-- the fields with these values
unfoldable pub system_of : List ℕ → List Bool → SystemFields
system_of values rest = record {
  pn = get_or values 0 0;
  seq = get_or values 1 0;
  sid = get_or values 2 0;
  nid = get_or values 3 0;
  zone = get_or values 4 0;
  zones = get_or values 5 0;
  ztimer = get_or values 6 0;
  msids = get_or values 7 0;
  mnids = get_or values 8 0;
  base = get_or values 9 0;
  bclass = get_or values 10 0;
  pages = get_or values 11 0;
  cycle = get_or values 12 0;
  home = get_or values 13 0;
  fsid = get_or values 14 0;
  fnid = get_or values 15 0;
  up = get_or values 16 0;
  down = get_or values 17 0;
  param = get_or values 18 0;
  prd = get_or values 19 0;
  lat = get_or values 20 0;
  long = get_or values 21 0;
  dist = get_or values 22 0;
  wina = get_or values 23 0;
  winn = get_or values 24 0;
  winr = get_or values 25 0;
  age = get_or values 26 0;
  pthresh = get_or values 27 0;
  pframes = get_or values 28 0;
  pthen = get_or values 29 0;
  pperen = get_or values 30 0;
  pdelay = get_or values 31 0;
  rescan = get_or values 32 0;
  tadd = get_or values 33 0;
  tdrop = get_or values 34 0;
  tcomp = get_or values 35 0;
  ttdrop = get_or values 36 0;
  rest = rest;
}

-- the message with this content
abbrev pub system_from : Contents → SystemFields
system_from c = system_of c.fixed c.rest
