mod NeverLands
