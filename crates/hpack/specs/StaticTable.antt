-- The static table (RFC 7541, section 2.3.1 and Appendix A).
use Rattle.std.specs.Prelude.{◌≡◌, ℕ, List, [], ◌∷◌, length, codes, refl}
use Rattle.hpack.specs.declared.limits.TheConstants.{STATIC_ENTRIES}
use Rattle.hpack.specs.declared.header.Header.{Header}

-- a header field of a name and a value
abbrev pub field : List ℕ → List ℕ → Header
field name value = record { name = name; value = value }

-- its entries, of index 1 to 61
unfoldable pub static_table : List Header
static_table =
    field (codes ":authority") []
    ∷ field (codes ":method") (codes "GET")
    ∷ field (codes ":method") (codes "POST")
    ∷ field (codes ":path") (codes "/")
    ∷ field (codes ":path") (codes "/index.html")
    ∷ field (codes ":scheme") (codes "http")
    ∷ field (codes ":scheme") (codes "https")
    ∷ field (codes ":status") (codes "200")
    ∷ field (codes ":status") (codes "204")
    ∷ field (codes ":status") (codes "206")
    ∷ field (codes ":status") (codes "304")
    ∷ field (codes ":status") (codes "400")
    ∷ field (codes ":status") (codes "404")
    ∷ field (codes ":status") (codes "500")
    ∷ field (codes "accept-charset") []
    ∷ field (codes "accept-encoding") (codes "gzip, deflate")
    ∷ field (codes "accept-language") []
    ∷ field (codes "accept-ranges") []
    ∷ field (codes "accept") []
    ∷ field (codes "access-control-allow-origin") []
    ∷ field (codes "age") []
    ∷ field (codes "allow") []
    ∷ field (codes "authorization") []
    ∷ field (codes "cache-control") []
    ∷ field (codes "content-disposition") []
    ∷ field (codes "content-encoding") []
    ∷ field (codes "content-language") []
    ∷ field (codes "content-length") []
    ∷ field (codes "content-location") []
    ∷ field (codes "content-range") []
    ∷ field (codes "content-type") []
    ∷ field (codes "cookie") []
    ∷ field (codes "date") []
    ∷ field (codes "etag") []
    ∷ field (codes "expect") []
    ∷ field (codes "expires") []
    ∷ field (codes "from") []
    ∷ field (codes "host") []
    ∷ field (codes "if-match") []
    ∷ field (codes "if-modified-since") []
    ∷ field (codes "if-none-match") []
    ∷ field (codes "if-range") []
    ∷ field (codes "if-unmodified-since") []
    ∷ field (codes "last-modified") []
    ∷ field (codes "link") []
    ∷ field (codes "location") []
    ∷ field (codes "max-forwards") []
    ∷ field (codes "proxy-authenticate") []
    ∷ field (codes "proxy-authorization") []
    ∷ field (codes "range") []
    ∷ field (codes "referer") []
    ∷ field (codes "refresh") []
    ∷ field (codes "retry-after") []
    ∷ field (codes "server") []
    ∷ field (codes "set-cookie") []
    ∷ field (codes "strict-transport-security") []
    ∷ field (codes "transfer-encoding") []
    ∷ field (codes "user-agent") []
    ∷ field (codes "vary") []
    ∷ field (codes "via") []
    ∷ field (codes "www-authenticate") []
    ∷ []

pub length_static_table : length static_table ≡ STATIC_ENTRIES
unfolding static_table
length_static_table = refl
